mod LowSpans
mod Numbered
mod RunSteps
