-- Texts put into a lent buffer, and what is answered of them.
pub mod Text
pub mod Puts
