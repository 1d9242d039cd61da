pub mod Suit
