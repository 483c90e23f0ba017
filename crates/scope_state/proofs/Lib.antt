-- What the proofs of several functions use; of these the effects of expressions use Listed and Uses, the stack Numbers, whoever has the locals of lent arrays Stacked.
pub mod Listed
pub mod Numbers
pub mod Joined
pub mod Uses
pub mod Stacked
