pub mod All
pub mod ContentsTold
pub mod FilesLooked
pub mod Linting
