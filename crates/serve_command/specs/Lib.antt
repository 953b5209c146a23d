pub mod Serving
pub mod Printed
