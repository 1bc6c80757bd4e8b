-- What the contracts say of rows.
pub mod Posts
