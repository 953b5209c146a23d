pub mod Behind
pub mod Fairness
pub mod Order
pub mod Room
pub mod Rule
pub mod UnderWay
