mod MagicCases
mod ThreeNumbers
