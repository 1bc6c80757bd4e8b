-- What the contracts say of codes.
pub mod Refusals
pub mod Reasons
