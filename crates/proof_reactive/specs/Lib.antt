pub mod Answering
pub mod Acting
pub mod Playing
pub mod Echo
pub mod Laws
