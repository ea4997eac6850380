pub mod ItemsRead
pub mod KeysOfObject
pub mod Utf8
