pub mod Graphs
pub mod Laws
pub mod PairLists
pub mod Growth
