pub mod HandedBack
