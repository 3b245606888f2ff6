pub mod WalkedLists
pub mod KeyedOrder
pub mod KeySources
pub mod PlaceOrders
