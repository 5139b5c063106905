pub mod Base64Lemmas
pub mod FormLemmas
pub mod HexLemmas
pub mod InputLemmas
