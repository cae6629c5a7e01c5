pub mod Daemons
