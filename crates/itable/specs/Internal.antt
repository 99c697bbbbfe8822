-- What serves the contracts and the proofs of many lookups alone; what they promise is in Many and ManyMeaning, and does not mention it.
pub mod Many
