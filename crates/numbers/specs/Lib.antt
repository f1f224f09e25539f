-- Answers in numbers: the definitions that contracts cite.
pub mod Numbers
