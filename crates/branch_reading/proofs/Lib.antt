mod QueryLemmas
mod SettledLemmas
