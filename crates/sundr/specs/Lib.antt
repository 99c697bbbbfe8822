-- What the calls for C add to the layers below: the array of a check's counts and the buffer of "send again", the numbers of a comparison and of
-- a choice, a server's list in lent bytes, the buffer of a lookup, and what is read in a number.
pub mod Check
pub mod Compare
pub mod Server
pub mod Lookup
pub mod Choose
pub mod Read
pub mod Chosen
