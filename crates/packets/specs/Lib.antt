pub mod Bodies
pub mod Grammar
pub mod Laws
pub mod Mails
pub mod Reading
pub mod Rules
pub mod Spelling
