-- The laws of the exports.
pub mod FunctionLaws
pub mod FieldLaws
pub mod ExportLaws
