pub mod CallFrames
