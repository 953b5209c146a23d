pub mod Circuit
pub mod KeyFile
pub mod Keys
