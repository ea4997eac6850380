pub mod ChannelsByIndex
pub mod ComponentsByIndex
pub mod EndsByChannel
pub mod Items
pub mod NotedItems
