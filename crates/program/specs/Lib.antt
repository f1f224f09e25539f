-- Programs: the definitions that the contracts cite.
pub mod Input
