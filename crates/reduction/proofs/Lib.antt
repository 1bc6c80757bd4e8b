pub mod Exits
mod ArgumentLaws
mod PutLaws
mod StepLaws
mod FormLaws
mod NumberedLaws
