pub mod Put
pub mod Writer
pub mod Within
pub mod Decimal
pub mod DecimalLaws
