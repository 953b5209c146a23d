pub mod Hmac
pub mod Laws
