-- Names for the contracts of inner functions.
pub mod Inner
