pub mod CuttingLaws
