-- Laws for whoever asks what a node does: what is lent says the tables.
pub mod Asked
pub mod Laws
