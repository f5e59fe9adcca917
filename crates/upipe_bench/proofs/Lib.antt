mod Chains
mod ManyFrames
