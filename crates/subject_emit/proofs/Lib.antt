pub mod Emittable
pub mod Joined
pub mod KeptMsrs
pub mod OneBitmaps
pub mod OnePages
pub mod SamePages
pub mod TablesReady
pub mod Wholes
