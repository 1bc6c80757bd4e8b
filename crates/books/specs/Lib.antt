-- What the check of the pieces comes to, from one to the next.
pub mod Loop
