pub mod PolicyValue
pub mod Record
pub mod RecordText
pub mod System
