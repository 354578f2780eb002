pub mod TellLemmas
