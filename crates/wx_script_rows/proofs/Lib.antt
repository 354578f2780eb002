pub mod QuietLemmas
pub mod OtherLemmas
