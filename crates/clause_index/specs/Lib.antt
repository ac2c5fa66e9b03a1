pub mod Classes
pub mod Numbers
pub mod Cursors
pub mod Chains
pub mod HeadKeys
pub mod Functors
