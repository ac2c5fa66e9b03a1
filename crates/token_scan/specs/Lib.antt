pub mod ScannedParts
pub mod NextToken
pub mod ScannerLaws
