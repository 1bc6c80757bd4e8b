pub mod HeadLaws
pub mod LinesBelow
