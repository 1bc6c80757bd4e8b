-- Laws that the proof of `rests_on` cites.
pub mod RestsLaws
