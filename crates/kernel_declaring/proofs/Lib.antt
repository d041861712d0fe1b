-- The law that the proofs need.
mod Presets
