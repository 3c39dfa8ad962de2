mod OpenCode
