-- What head steps leave: how large the cells are, where arguments lie, and what stays as it was.
pub mod Depths
pub mod Places
pub mod Frames
pub mod Posts
pub mod Numbered
pub mod FunctionPosts
