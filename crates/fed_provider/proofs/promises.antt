-- What the definitions promise, one file for each law.
pub mod OneConfiguration
pub mod EndpointsAreOwn
