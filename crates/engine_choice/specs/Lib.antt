pub mod Choice
pub mod First
pub mod Laws
