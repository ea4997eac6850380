pub mod Calls
pub mod Directions
pub mod Events
pub mod Listings
pub mod Marks
pub mod Monitors
pub mod Numbers
pub mod Vectors
