pub mod Searches
pub mod Graphs
