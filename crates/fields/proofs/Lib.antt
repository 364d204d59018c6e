mod Tables
mod Pairs
mod Powers
pub mod Examples
