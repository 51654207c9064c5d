pub mod CellLaws
pub mod ColumnLaws
