-- A step's state loses nothing in the eight bits of an index. Assumes nothing.
use Rattle.ima_nibble.proofs.Bounds.{narrow-is}

pub ruleset keeps_all = (narrow-is)
