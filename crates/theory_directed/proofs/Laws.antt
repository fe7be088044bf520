pub mod Directed
