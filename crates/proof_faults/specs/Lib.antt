pub mod Room
pub mod WrongField
pub mod Laws
