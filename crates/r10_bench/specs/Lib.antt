pub mod BuilderAfterLane
