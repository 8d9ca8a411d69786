mod LiveNodes
