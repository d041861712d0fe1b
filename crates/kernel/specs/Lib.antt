-- What the methods promise: the reply to the call that each stands for.
pub mod Reply
