-- What the program's functions hand to each other, and why each may be called.
pub mod Rounds
pub mod RoundLaws
